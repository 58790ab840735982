-- `of` makes a value of no bytes of memory, at what its clause names.
use mathlib.Core.Path.{◌≡◌, refl}
use mathlib.Core.List.{[], ◌∷◌}
use mir.Syntax.{a_type, dcons, dnil, named}
use mir.Val.{Val, vptr, vstruct, vnil}
use mir.MapTy.{inst_fn}
use base.Logic.{SProp, emp}
use types.Kit.{‵, raw, ◌⊛◌, ◌$◌, ◌∵◌, !, qed, by, keep, split, fjoin, use0}
use types.Run.{enter, returns, no_more}
use types.Part.{agg}
use types.ByLocal.{alloc_all, pass_all, free_all, look_at, sets}
use contract.Monad.{fact, fact_i}
use contract.Running.{tables}
use denote.Exit.{yes}
use denote.RattleType.{owns}
use denote.Builtin.{RefOf}
use denote.Param.{param, bounded}
use denote.Ref.{shr_vals, shr_Tells}
use denote.Shadow.{pure_i}
use denote.Signature.{plain, types_at}
use denote.Steps.{nothing}
use denote.Triple.Entry.{alive}
use denote.Triple.Walked.{Stays, stay_dropped, walk_of, Goes-dropped}
use Rattle.std.proofs.raw_atomic.Walks.{proved, leaves}
use Rattle.command_ends.specs.declared.snapshot.Snapshot.{Snapshot}
use Rattle.command_ends.specs.contracts.snapshot.Snapshot as T
use Rattle.command_ends.specs.contracts.snapshot.Snapshot.of.{ended, clauses}
use Rattle.command_ends.specs.contracts.snapshot.Snapshot.of.Key.{name as #self}
use Rattle.command_ends.proofs.snapshot.Snapshot.of.Statement.{statement}
use Rattle.command_ends.proofs.snapshot.Snapshot.of.Code as code

pub of_spec : {M : Type 1} → statement M
of_spec 𝓤 𝓛 𝓜 𝓡 wired W L g d met =
    let H = 𝓛.H in let 𝓣 = tables 𝓤 H 𝓜 𝓡 𝓡.env in
    let En = ended W g d in let c = clauses W g d 𝓛 𝓜.mem 𝓡.returns in
    let inst = bounded (a_type ∷ []) (W, tt) (dcons d dnil) in let fn = inst_fn inst code.function in
    let slot = RefOf (0 ∷ []) tt (plain (λ _. param 0 W)) (λ _. tt) in let hs : Stays En.signature.params En.kept = (stay_dropped slot yes, tt) in
    proved 𝓛 En hs c 𝓜 𝓡 (Goes-dropped 𝓛 2 slot yes (λ κs x f. refl), tt) (#self inst) fn (code.unfolded 𝓤 H 𝓜 𝓡 wired (W, tt) d)
    (λ κs. (shr_vals, tt)) (λ κs. (shr_Tells (named 0) κs.0 (param 0 W), tt)) (λ κs qs bounds a gh are.
    let p : Val = vptr a.0.ref_ptr.0 a.0.ref_ptr.1 in let y : (walk_of 𝓛 En hs c).Ghost = ((κs, qs, bounds, a, (p ∷ [], tt)), gh) in
    let Post : Val → SProp 𝓤 = (walk_of 𝓛 En hs c).post y in
    let v : Val = vstruct vnil in let r : Snapshot = record { bytes = g.contents a.0.now } in
    qed 𝓛 ((raw (alive 𝓛 En.signature κs qs) ⊛ ‵ (owns (types_at En.signature.params κs) a y.0.4)) ∷ raw ((c κs a).requires gh) ∷ []) ∵ split ! $ keep ! (0 ∷ []) $
    enter ! 𝓣.C 𝓣.Λ fn (p ∷ []) Post $ alloc_all ! (λ l. pass_all ! refl ((tt, tt), tt) $
    sets ! (agg ! (no_more !)) refl (tt, tt) $
    pure_i ! ((T.the_row).own_val r (v ∷ [])) ((λ vss. (tt, tt)), tt) ((tt, (refl, tt)), tt) $
    use0 𝓛 (raw (fact 𝓤 (r.bytes ≡ r.bytes))) (fact_i 𝓤 (r.bytes ≡ r.bytes) (emp 𝓤) refl) $ nothing ! $ nothing ! $ fjoin ! $
    returns ! (look_at ! 0 refl) $ free_all ! refl $ keep ! (3 ∷ 0 ∷ 2 ∷ 1 ∷ []) $ by ! (leaves 𝓛 En hs c y v r (tt, tt) (tt, tt))))
