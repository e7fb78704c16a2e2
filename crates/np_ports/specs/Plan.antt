-- Which calls of an object in memory fail, and what it counts. (This project's own.)
use Rattle.std.specs.Prelude.{◌==◌, ℕ, List, ◌+◌, ◌-◌, ◌^◌, Bool, true, false, min, Result, Ok, Err}
use Rattle.std.specs.List.{list_any}
use Rattle.np_ports.specs.declared.error.PortError.{PortError}
use Rattle.np_ports.specs.declared.error.PortError.TheVariants.{Failed, NoMemory}
use Rattle.np_ports.specs.declared.call_plan.CallPlan.{CallPlan}

-- the numbers of the calls that fail, and the number of the next call
pub record Plan : Type 0 where
  pub failing : List ℕ
  pub next : ℕ

-- the plan that a count of calls stands for
abbrev pub plan_of : CallPlan → Plan
plan_of p = record { failing = p.fail_at.items; next = p.next }

-- before the first call, which has number 1
abbrev pub plan_from : List ℕ → Plan
plan_from numbers = record { failing = numbers; next = 1 }

-- whether the next call's number is listed
abbrev pub fails_next : Plan → Bool
fails_next p = list_any (λ n. n == p.next) p.failing

-- after one more call: the next number, up to 2^64 - 1
abbrev pub after_call : Plan → Plan
after_call p = record p { next = min (p.next + 1) (2 ^ 64 - 1) }

-- a call answers Failed exactly where it is to fail; out of memory may come before either answer
abbrev pub FailsWhere : {T : Type 0} → Bool → Result T PortError → Type 0
FailsWhere fails (Err NoMemory) = Unit {0}
FailsWhere true (Ok x) = ⊥
FailsWhere true (Err Failed) = Unit {0}
FailsWhere false (Ok x) = Unit {0}
FailsWhere false (Err Failed) = ⊥
