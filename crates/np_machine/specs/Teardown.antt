-- How an instance is torn down on one side. (Gecko Plugin API Reference, NPP_Destroy: its objects are invalidated; npruntime.h, NPClass: invalidate. The order is this project's own.)
use Rattle.std.specs.Prelude.{ℕ, List, [], ◌∷◌, ◌++◌, ◌==◌, if◌then◌else◌}
use Rattle.np_values.specs.declared.name.Side.{Side}
use Rattle.np_values.specs.declared.name.Name.{Name}
use Rattle.np_values.specs.Name.{is_before}
use Rattle.np_proxy_release.specs.declared.release.Release.{Release}
use Rattle.np_life.specs.declared.phase.Phase.TheVariants.{Dead}
use Rattle.np_journal.specs.declared.line.Line.{Line}
use Rattle.np_journal.specs.declared.line.Line.TheVariants.{ProxyGone, Invalidated}
use Rattle.np_machine.specs.References.{is_same_name, other_side, released_name}
use Rattle.np_machine.specs.Instances.{with_phase}
use Rattle.np_machine.specs.Objects.{names_of_instance}
use Rattle.np_machine.specs.Side.{SideState, place_values}
use Rattle.np_machine.specs.Messages.{remote_names_in}

-- the line of each name
abbrev pub lines_of : (Name → Line) → List Name → List Line
lines_of line [] = []
lines_of line (y ∷ ys) = line y ∷ lines_of line ys

-- the objects of the instance that these releases are of
abbrev pub pending_names : Side → ℕ → List Release → List Name
pending_names owner n [] = []
pending_names owner n (r ∷ rs) = if n == r.instance then (released_name owner r ∷ pending_names owner n rs) else pending_names owner n rs

-- the releases without those of the instance
abbrev pub pending_without : ℕ → List Release → List Release
pending_without n [] = []
pending_without n (r ∷ rs) = if n == r.instance then pending_without n rs else (r ∷ pending_without n rs)

-- the name is put at its place in the rising order, where it isn't there yet
abbrev pub with_name : Name → List Name → List Name
with_name y [] = y ∷ []
with_name y (x ∷ xs) = if is_same_name y x then (x ∷ xs) else if is_before y x then (y ∷ (x ∷ xs)) else (x ∷ with_name y xs)

-- these names in rising order, each once
abbrev pub rising : List Name → List Name
rising [] = []
rising (y ∷ ys) = with_name y (rising ys)

-- The instance is dead on this side. First the proxies of the other side's objects are invalidated, in rising order: nothing is given back of them any more. Then the own objects are, and each is queued for deallocation.
abbrev pub tear_down : {C : Type 0} → ℕ → SideState C → SideState C
tear_down n p =
    record p {
      instances = with_phase n Dead p.instances;
      unreleased = remote_names_in p.side (λ i. n == i) (place_values p) ++ (pending_names (other_side p.side) n p.pending_releases ++ p.unreleased);
      pending_releases = pending_without n p.pending_releases;
      dealloc_queue = p.dealloc_queue ++ names_of_instance n p.objects;
      journal = p.journal ++ (lines_of ProxyGone (rising (remote_names_in p.side (λ i. n == i) (place_values p))) ++ lines_of Invalidated (names_of_instance n p.objects));
    }
