-- Worked examples of how an end refuses bytes that break the format.
use Rattle.std.proofs.Common.{◌≡◌, refl}
use Rattle.np_message.specs.declared.wire.WireKind.TheVariants.{Length, Item, Rest}
use Rattle.np_model.specs.declared.refusal.Rule.TheVariants as rules
use Rattle.np_model.specs.Refused.{refusal_of}

refused-length : refusal_of (record { at = 100; kind = Length; first = 3; second = 32768 }) ≡ record { at = 100; rule = rules.Length; first = 3; second = 32768 }
refused-length = refl

refused-item : refusal_of (record { at = 104; kind = Item; first = 100; second = 4 }) ≡ record { at = 104; rule = rules.Item; first = 100; second = 4 }
refused-item = refl

refused-rest : refusal_of (record { at = 108; kind = Rest; first = 100; second = 5 }) ≡ record { at = 108; rule = rules.Rest; first = 100; second = 5 }
refused-rest = refl
