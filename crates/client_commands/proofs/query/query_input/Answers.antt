use Rattle.std.proofs.Common.{◌≡◌, ℕ, List, Bool, true, false, if◌then◌else◌, Result, Ok, Err, inl, inr, refl, sym, ◌∙◌}
use Rattle.std.specs.Str.{is_utf8}
use Rattle.scan_base.specs.declared.fault.Fault.{Fault}
use Rattle.scan_base.specs.declared.fault.Fault.TheVariants.{BadSql}
use Rattle.scan_base.specs.Reading.{text_in}
use Rattle.client_commands.proofs.query.query_input.Goals as goal

-- a text that was read is the bytes
text_read : (bytes text : List ℕ) (fault : Fault) → text_in bytes fault ≡ Ok text → text ≡ bytes
text_read bytes text fault is = by (is_utf8 bytes) is
  where
    by : (b : Bool) → (if b then Ok bytes else Err fault) ≡ Ok text → text ≡ bytes
    by true e = let f : bytes ≡ text = cc in sym f
    by false e = absurd (let no : ⊥ = cc in no)

-- and bytes of which none was read are no UTF-8
no_text : (bytes : List ℕ) (fault other : Fault) → text_in bytes fault ≡ Err other → (is_utf8 bytes ≡ false) × (other ≡ fault)
no_text bytes fault other is = by (is_utf8 bytes) is
  where
    by : (b : Bool) → (if b then Ok bytes else Err fault) ≡ Err other → (b ≡ false) × (other ≡ fault)
    by true e = absurd (let no : ⊥ = cc in no)
    by false e = (refl, let f : fault ≡ other = cc in sym f)

pub returns-in-Ok-read_text : goal.returns-in-Ok-read_text
returns-in-Ok-read_text g c =
    let text : c.in-Ok-read_text.sql.now ≡ c.in-Ok.text = text_read _ _ (BadSql 0) (rw c.as_slice.ensures at c.in-Ok-read_text.ensures) in
    let w = c.with_text.ensures in
    inr (c.in-Ok.text, c.in-Ok.ensures, inr (rw (w.0, w.1, w.2 ∙ text, w.3) at c.query.ensures))

pub returns : goal.returns
returns g c =
    let none = no_text _ (BadSql 0) _ (rw c.as_slice.ensures at c.in-Err-read_text.ensures) in
    inr (
      c.in-Ok.text,
      c.in-Ok.ensures,
      inl (
        none.0,
        refl,
        record {
          nothing = refl;
          status_is = c.end_by_fault-in-Err-read_text.ensures.status;
          says = rw none.1 at c.end_by_fault-in-Err-read_text.ensures.line;
        },
      ),
    )
