-- What messages of the wire format refer to is counted from instance 1 and serial 1.
use Rattle.std.proofs.Common.{◌≡◌, ◌<◌, List, [], ◌∷◌, ◌++◌, Bool, true, false, refl, subst, sym, arith, Some}
use Rattle.std.specs.Prelude.{◌==◌}
use Rattle.np_values.specs.declared.name.Side.{Side}
use Rattle.np_values.specs.declared.name.Name.{Name}
use Rattle.np_values.specs.declared.value.Value.{Value}
use Rattle.np_values.specs.declared.value.Value.TheVariants as values
use Rattle.np_message.specs.declared.payload.Payload.{Payload}
use Rattle.np_message.specs.declared.payload.Payload.TheVariants as payloads
use Rattle.np_message.specs.Message.{Message}
use Rattle.np_message.specs.Rules.{Each, KeepsValue, KeepsKind, KeepsFormat}
use Rattle.np_machine.specs.References.{is_same_name, count_in_name, count_in_value, references_to, references_in, carried_in}
use Rattle.np_machine.proofs.NameLemmas.{same-is}
use Rattle.np_machine.proofs.BalanceLemmas.{is_zero, nonzero}

-- instance and serial are counted from 1
pub record IsCounted (x : Name) : Type 0 where
  pub instance : 0 < x.instance
  pub serial : 0 < x.serial

name-counted : (x y : Name) → IsCounted y → 0 < count_in_name x (Some y) → IsCounted x
name-counted x y k z = go (is_same_name x y) refl
  where
    go : (b : Bool) → is_same_name x y ≡ b → IsCounted x
    go true e = subst IsCounted (sym (same-is x y e)) k
    go false e = let z' = simp e at z in absurd (omega arith)

value-counted : (x : Name) (v : Value) → KeepsValue v → 0 < count_in_value x v → IsCounted x
value-counted x (values.Object y) k z = name-counted x y (record { instance = k.0; serial = k.1 }) z
value-counted x values.Void k z = absurd (omega arith)
value-counted x values.Null k z = absurd (omega arith)
value-counted x (values.Bool b) k z = absurd (omega arith)
value-counted x (values.Int n) k z = absurd (omega arith)
value-counted x (values.Double bytes) k z = absurd (omega arith)
value-counted x (values.Text text) k z = absurd (omega arith)

values-counted : (x : Name) (vs : List Value) → Each KeepsValue vs → 0 < references_to x vs → IsCounted x
values-counted x [] k z = absurd (omega arith)
values-counted x (v ∷ vs) k z = go (count_in_value x v == 0) refl (λ w. values-counted x vs k.1 w)
  where
    go : (b : Bool) → (count_in_value x v == 0) ≡ b → (0 < references_to x vs → IsCounted x) → IsCounted x
    go true e ih = let n = is_zero _ e in ih (omega (arith, n, z))
    go false e ih = value-counted x v k.0 (nonzero _ e)

with-target : (vs : List Value) (v : Value) → Each KeepsValue vs → KeepsValue v → Each KeepsValue (vs ++ v ∷ [])
with-target [] v h k = (k, tt)
with-target (u ∷ vs) v h k = (h.0, with-target vs v h.1 k)

body-values : (s : Side) (body : Payload) → KeepsKind body → Each KeepsValue (references_in s body)
body-values s (payloads.Call instance serial op arguments) k = with-target arguments _ k.3 (k.0, k.1)
body-values s (payloads.True value) k = (k, tt)
body-values s (payloads.Hello version major minor) k = tt
body-values s (payloads.New instance mode mime attributes) k = tt
body-values s (payloads.Destroy instance) k = tt
body-values s (payloads.Scriptable instance) k = tt
body-values s payloads.Turn k = tt
body-values s (payloads.NewStream instance stream url mime size) k = tt
body-values s (payloads.WriteReady instance stream) k = tt
body-values s (payloads.Write instance stream offset bytes) k = tt
body-values s (payloads.AsFile instance stream path) k = tt
body-values s (payloads.DestroyStream instance stream reason) k = tt
body-values s (payloads.Notify instance url reason word) k = tt
body-values s payloads.Shutdown k = tt
body-values s (payloads.Window instance) k = tt
body-values s (payloads.GetUrl instance url word) k = tt
body-values s (payloads.RequestRead instance stream ranges) k = tt
body-values s (payloads.EndStream instance stream reason) k = tt
body-values s payloads.False k = tt
body-values s (payloads.Threw text) k = tt
body-values s (payloads.Idents keys) k = tt
body-values s (payloads.Code error) k = tt
body-values s (payloads.Number n) k = tt
body-values s payloads.Done k = tt

-- what messages of the format carried is counted so
pub carried-counted : (s : Side) (x : Name) (ms : List Message) → Each KeepsFormat ms → 0 < carried_in s x ms → IsCounted x
carried-counted s x [] k z = absurd (omega arith)
carried-counted s x (m ∷ ms) k z = go (references_to x (references_in s m.body) == 0) refl (λ w. carried-counted s x ms k.1 w)
  where
    go : (b : Bool) → (references_to x (references_in s m.body) == 0) ≡ b → (0 < carried_in s x ms → IsCounted x) → IsCounted x
    go true e ih = let n = is_zero _ e in ih (omega (arith, n, z))
    go false e ih = values-counted x (references_in s m.body) (body-values s m.body k.0.body) (nonzero _ e)
