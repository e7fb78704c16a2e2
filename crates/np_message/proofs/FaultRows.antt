-- Worked examples of first faults.
use Rattle.std.proofs.Common.{◌≡◌, true, false, inl, inr, [], ◌∷◌, refl, ap, ◌∙◌, lit<, arith}
use Rattle.np_message.specs.declared.wire.WireKind.TheVariants.{Length, Item as ItemRule, Rest}
use Rattle.np_message.specs.declared.payload.Payload.TheVariants.{Done}
use Rattle.np_message.specs.Message.{Message}
use Rattle.np_message.specs.Items.{KindItem, is_kind}
use Rattle.np_message.specs.Formats.{message_format, page_call_format, plugin_call_format, shared_format}
use Rattle.np_message.specs.Faults.{NoneBegins, FaultAt, Encodes, IsFirstFault}

-- ---- a length of 3

length_3 : IsFirstFault 100 (0 ∷ 0 ∷ 0 ∷ 3 ∷ []) (record { at = 100; kind = Length; first = 3; second = 32768 })
length_3 = inl (record {
  value = 3;
  behind = [];
  begins = record { field = 0 ∷ 0 ∷ 0 ∷ 3 ∷ []; parts = refl; four = refl; value_is = refl };
  out = inl (lit< tt);
  error = refl;
})

-- ---- a kind that is none

no_kind_13 : NoneBegins KindItem (13 ∷ 1 ∷ 0 ∷ 0 ∷ [])
no_kind_13 = λ x rest p.
    let same : 13 ≡ x = (let e = p.parts in cc) in
    let no : is_kind 13 ≡ true = ap is_kind same ∙ p.is_of in
    cc

kind_13 : FaultAt message_format (13 ∷ 1 ∷ 0 ∷ 0 ∷ []) 0
kind_13 = inl (no_kind_13, refl)

kind_13_is_first : IsFirstFault 100 (0 ∷ 0 ∷ 0 ∷ 4 ∷ 13 ∷ 1 ∷ 0 ∷ 0 ∷ []) (record { at = 104; kind = ItemRule; first = 100; second = 4 })
kind_13_is_first = inr (record {
  body = 13 ∷ 1 ∷ 0 ∷ 0 ∷ [];
  behind = [];
  begins = record { field = 0 ∷ 0 ∷ 0 ∷ 4 ∷ []; parts = refl; four = refl; value_is = refl };
  least = omega arith;
  most = omega arith;
  kind = ItemRule;
  place = 0;
  breaks = kind_13;
  error = refl;
})

-- ---- a byte behind the items of Done

abbrev done : Message
done = record { depth = record { level = 1; task = false }; releases = []; body = Done }

done_items : Encodes message_format done (71 ∷ 1 ∷ 0 ∷ 0 ∷ [])
unfolding page_call_format plugin_call_format shared_format
done_items = (
  71,
  1 ∷ 0 ∷ 0 ∷ [],
  record { parts = refl; is_of = refl },
  (
    done.depth,
    0 ∷ 0 ∷ [],
    record { parts = refl; is_of = (lit< tt, lit< tt) },
    (0, [], record { parts = refl; is_of = (omega arith, omega arith) }, (refl, refl)),
  ),
)

rest_is_first : IsFirstFault 100 (0 ∷ 0 ∷ 0 ∷ 5 ∷ 71 ∷ 1 ∷ 0 ∷ 0 ∷ 9 ∷ []) (record { at = 108; kind = Rest; first = 100; second = 5 })
rest_is_first = inr (record {
  body = 71 ∷ 1 ∷ 0 ∷ 0 ∷ 9 ∷ [];
  behind = [];
  begins = record { field = 0 ∷ 0 ∷ 0 ∷ 5 ∷ []; parts = refl; four = refl; value_is = refl };
  least = omega arith;
  most = omega arith;
  kind = Rest;
  place = 4;
  breaks = record { items = 71 ∷ 1 ∷ 0 ∷ 0 ∷ []; rest = 9 ∷ []; says = done; parts = refl; encodes = done_items; more = (λ e. cc); place = refl };
  error = refl;
})
