-- Worked rows: the definitions, tried on streams that were worked out by hand.
use Rattle.std.proofs.Common.{◌≡◌, inl, inr, List, ℕ, [], ◌∷◌, ◌++◌, refl, lit<}
use Rattle.std.proofs.lemmas.List.Elements.{All-from_recursion}
use Rattle.flatbuf.specs.Place.{vtable_of, field_of, scalar_of}
use Rattle.arrow_schema.specs.declared.header.HeaderKind.TheVariants as kinds
use Rattle.ipc_stream.specs.declared.message.IpcMessage.{IpcMessage}
use Rattle.ipc_stream.specs.Stream.{end_marker, frame, ClaimsBody, IsMessage, Framed}

-- the end marker
marker : end_marker ≡ 255 ∷ 255 ∷ 255 ∷ 255 ∷ 0 ∷ 0 ∷ 0 ∷ 0 ∷ []
marker = refl

-- the shortest message: a header of four zeros, which says nothing of a body
abbrev shortest : IpcMessage
shortest = record { header = 0 ∷ 0 ∷ 0 ∷ 0 ∷ []; body = [] }

shortest-frame : frame shortest ≡ 255 ∷ 255 ∷ 255 ∷ 255 ∷ 4 ∷ 0 ∷ 0 ∷ 0 ∷ 0 ∷ 0 ∷ 0 ∷ 0 ∷ []
shortest-frame = refl

shortest-is : IsMessage shortest
unfolding vtable_of field_of scalar_of
shortest-is = record {
  claims = record { message = record { kind = kinds.Schema; table = record { bytes = shortest.header; at = 0 } }; root = refl; claimed = refl; fits = lit< tt };
  fits = lit< tt;
}

-- A header that claims five bytes: the root's offset, a vtable of 12 bytes whose slot 3 lies at 4, and a table with its
-- vtable 12 bytes before it.
abbrev five : List ℕ
five = (16 ∷ 0 ∷ 0 ∷ 0 ∷ []) ++ ((12 ∷ 0 ∷ 12 ∷ 0 ∷ 0 ∷ 0 ∷ 0 ∷ 0 ∷ 0 ∷ 0 ∷ 4 ∷ 0 ∷ []) ++ ((12 ∷ 0 ∷ 0 ∷ 0 ∷ []) ++ (5 ∷ 0 ∷ 0 ∷ 0 ∷ 0 ∷ 0 ∷ 0 ∷ 0 ∷ [])))

five-claims : ClaimsBody five 5
unfolding vtable_of field_of scalar_of
five-claims = record { message = record { kind = kinds.Schema; table = record { bytes = five; at = 16 } }; root = refl; claimed = refl; fits = lit< tt }

-- two messages, the end marker, and a byte after it
abbrev second : IpcMessage
second = record { header = five; body = 1 ∷ 2 ∷ 3 ∷ 4 ∷ 5 ∷ [] }

second-is : IsMessage second
second-is = record { claims = five-claims; fits = lit< tt }

both : Framed (frame shortest ++ (frame second ++ (end_marker ++ (9 ∷ [])))) (shortest ∷ second ∷ []) (end_marker ++ (9 ∷ []))
both = record {
  whole = refl;
  each = All-from_recursion IsMessage (shortest ∷ second ∷ []) (shortest-is, (second-is, tt));
  ends = inr (9 ∷ [], refl);
}

-- nothing is a stream of no messages
nothing : Framed [] [] []
nothing = record { whole = refl; each = All-from_recursion IsMessage [] tt; ends = inl refl }
