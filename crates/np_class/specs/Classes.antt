-- The class table: what a class has for each operation.
-- (npruntime.h, NPClass. That a class can let its objects keep properties without a body is this project's own.)
use Rattle.std.specs.Prelude.{◌≡◌, ◌≤◌, ◌⊎◌, ℕ, Bool, true, false, IsTrue, ◌==◌, ◌||◌, if◌then◌else◌, Option, Some, None, is_some, position, slice_get}
use Rattle.np_idents.specs.IdKey.{is_same_key}
use Rattle.np_idents.specs.declared.op.Op.{Op}
use Rattle.np_idents.specs.declared.op.Op.TheVariants.{Invoke, Default, Construct, Get, Put, Remove, HasMethod, HasProperty, Enumerate}
use Rattle.np_script_grammar.specs.declared.class.Member.{Member}
use Rattle.np_script_grammar.specs.declared.class.Member.TheVariants as member
use Rattle.np_script_grammar.specs.declared.class.ClassDef.{ClassDef}
use Rattle.np_class.specs.declared.found.Found.{Found}
use Rattle.np_class.specs.declared.found.Found.TheVariants.{Body, Stored, Absent}

-- the operation asks for this member: one of its kind, and of its identifier where it has one
abbrev pub asks_for : Op → Member → Bool
asks_for (Invoke key) (member.Method own body) = is_same_key key own
asks_for (HasMethod key) (member.Method own body) = is_same_key key own
asks_for (Get key) (member.Getter own body) = is_same_key key own
asks_for (HasProperty key) (member.Getter own body) = is_same_key key own
asks_for (Put key) (member.Setter own body) = is_same_key key own
asks_for Default (member.Default body) = true
asks_for Construct (member.Construct body) = true
asks_for op m = false

-- the place of the first member that the operation asks for
abbrev pub place_of : Op → ClassDef → Option ℕ
place_of op class = position (asks_for op) class.members

-- the body at the place, or what is found where there is none
abbrev pub body_or : Option ℕ → Found → Found
body_or (Some place) otherwise = Body place
body_or None otherwise = otherwise

-- the runtime's own answer, where it has one
abbrev pub kept : Bool → Found
kept stored = if stored then Stored else Absent

-- the rows of the table, an operation each
abbrev pub entry : ClassDef → Op → Found
entry class (Invoke key) = body_or (place_of (Invoke key) class) Absent
entry class Default = body_or (place_of Default class) Absent
entry class Construct = if class.version == 3 then body_or (place_of Construct class) Absent else Absent
entry class (Get key) = body_or (place_of (Get key) class) (kept class.stored)
entry class (Put key) = body_or (place_of (Put key) class) (kept class.stored)
entry class (Remove key) = kept class.stored
entry class (HasMethod key) = kept (is_some (place_of (HasMethod key) class))
entry class (HasProperty key) = kept (is_some (place_of (HasProperty key) class) || class.stored)
entry class Enumerate = Stored

-- The same table without a search: which member's body an operation may run, and when the runtime itself answers.

-- the class has this member at this place
abbrev pub HasAt : ClassDef → ℕ → Member → Type 0
HasAt class place m = slice_get class.members place ≡ Some m

-- the member at the place has a body for the operation
abbrev pub MayRun : ClassDef → Op → ℕ → Type 0
MayRun class (Invoke key) place = (body : _) × HasAt class place (member.Method key body)
MayRun class Default place = (body : _) × HasAt class place (member.Default body)
MayRun class Construct place = (class.version ≡ 3) × ((body : _) × HasAt class place (member.Construct body))
MayRun class (Get key) place = (body : _) × HasAt class place (member.Getter key body)
MayRun class (Put key) place = (body : _) × HasAt class place (member.Setter key body)
MayRun class op place = ⊥

-- no member has a body for the operation
abbrev pub RunsNone : ClassDef → Op → Type 0
RunsNone class op = (place : ℕ) → ¬ (MayRun class op place)

-- the runtime itself answers: a property where the class keeps properties and no body comes first,
-- whether there is a method or a property, and the list of what is kept
abbrev pub AnswersItself : ClassDef → Op → Type 0
AnswersItself class (Get key) = IsTrue class.stored × RunsNone class (Get key)
AnswersItself class (Put key) = IsTrue class.stored × RunsNone class (Put key)
AnswersItself class (Remove key) = IsTrue class.stored
AnswersItself class (HasMethod key) = (place : ℕ) × MayRun class (Invoke key) place
AnswersItself class (HasProperty key) = ((place : ℕ) × MayRun class (Get key) place) ⊎ IsTrue class.stored
AnswersItself class Enumerate = Unit {0}
AnswersItself class op = ⊥

-- what is found is what the class has: the first body, the runtime's own answer, or neither
abbrev pub IsEntry : ClassDef → Op → Found → Type 0
IsEntry class op (Body place) = MayRun class op place × ((other : ℕ) → MayRun class op other → place ≤ other)
IsEntry class op Stored = AnswersItself class op
IsEntry class op Absent = RunsNone class op × ¬ (AnswersItself class op)
