-- The results of calls as code has them. (This project's own.)
use Rattle.std.specs.Prelude.{◌≡◌, ◌≤◌, Bool, true, length}
use Rattle.np_machine_plans.specs.Results as plans
use Rattle.np_side_planner.specs.declared.results.CallResult.{CallResult}
use Rattle.np_side_planner.specs.declared.results.CallResult.TheVariants as results

-- the result that it tells
abbrev pub told : CallResult → plans.CallResult
told (results.Returned v) = plans.Returned v
told results.Failed = plans.Failed
told (results.Threw text) = plans.Threw text
told (results.Enumerated keys) = plans.Enumerated keys
told (results.ReturnedCode error) = plans.ReturnedCode error

-- an object has at most 64 properties, so so many identifiers
abbrev pub HasFewKeys : CallResult → Type 0
HasFewKeys (results.Enumerated keys) = length keys ≤ 64
HasFewKeys result = Unit {0}

-- the same result, but for the value of a returned one
abbrev pub IsLike : plans.CallResult → plans.CallResult → Type 0
IsLike (plans.Returned v) (plans.Returned w) = Unit {0}
IsLike a b = a ≡ b

-- the result is this one; its value is told where it is wanted
pub record Tells (wanted : Bool) (result : CallResult) (is : plans.CallResult) : Type 0 where
  pub like : IsLike (told result) is
  pub whole : wanted ≡ true → told result ≡ is
