-- Payloads that fit messages.
use Rattle.std.proofs.Common.{◌≤◌, List, [], ◌∷◌, ◌++◌, length}
use Rattle.std.proofs.lemmas.List.Elements.{All-nil, All-push}
use Rattle.scan_base.specs.Limits.{most_message_bytes}
use Rattle.flight_info.specs.Payloads.{Payload, FitMessages}

pub none_fit : FitMessages []
unfolding FitMessages
none_fit = All-nil (λ (payload : Payload). length payload ≤ most_message_bytes)

pub one_fits : (payloads : List Payload) (payload : Payload) → FitMessages payloads → length payload ≤ most_message_bytes → FitMessages (payloads ++ payload ∷ [])
unfolding FitMessages
one_fits payloads payload before fits = All-push (λ (payload : Payload). length payload ≤ most_message_bytes) payloads payload before fits
