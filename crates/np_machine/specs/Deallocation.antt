-- How the objects in the deallocation queue are deallocated. (npruntime.h, NPClass: deallocate; the order is this project's own.)
use Rattle.std.specs.Prelude.{ℕ, zero, suc, List, [], ◌∷◌, ◌++◌, length, Bool, ◌&&◌, ◌==◌, not, if◌then◌else◌}
use Rattle.np_values.specs.declared.name.Name.{Name}
use Rattle.np_journal.specs.declared.line.Line.TheVariants.{Deallocated}
use Rattle.np_machine.specs.declared.object.Object.{Object}
use Rattle.np_machine.specs.Objects.{properties_of, property_values, without_object}
use Rattle.np_machine.specs.Side.{SideState, local_count, is_dead}
use Rattle.np_machine.specs.Dropping.{drop_next, drop_many}

-- The object leaves the list, its line is written, and the values of its properties come in flight. The rest of the queue stays.
abbrev pub take_out : {C : Type 0} → Name → List Name → SideState C → SideState C
take_out y rest p =
    record p {
      dealloc_queue = rest;
      objects = without_object y p.objects;
      in_flight = property_values (properties_of y p.objects) ++ p.in_flight;
      journal = p.journal ++ Deallocated y ∷ [];
    }

-- At most so many objects of the queue are deallocated, from its front. Of each the properties are dropped in their order, which may put further objects into the queue.
abbrev pub serve_deallocations : {C : Type 0} → ℕ → (Name → Bool) → List Name → SideState C → SideState C
serve_deallocations zero remote queue p = p
serve_deallocations (suc n) remote [] p = p
serve_deallocations (suc n) remote (y ∷ rest) p =
    let q = drop_many (length (properties_of y p.objects)) remote (take_out y rest p) in serve_deallocations n remote q.dealloc_queue q

-- the queue is served, at most once for each object that there is
abbrev pub serve_queue : {C : Type 0} → (Name → Bool) → SideState C → SideState C
serve_queue remote p = serve_deallocations (length p.objects) remote p.dealloc_queue p

-- so many values in flight are dropped, one after another, and after each the queue is served
abbrev pub drop_each : {C : Type 0} → ℕ → (Name → Bool) → SideState C → SideState C
drop_each zero remote p = p
drop_each (suc n) remote p = drop_each n remote (serve_queue remote (drop_next remote p.in_flight p))

-- of these objects those of instances that aren't dead to which nothing refers, here or remotely
abbrev pub unreferenced : {C : Type 0} → (Name → Bool) → SideState C → List Object → List Name
unreferenced remote p [] = []
unreferenced remote p (o ∷ os) =
    if not (is_dead p o.name.instance) && (local_count o.name p == 0 && not (remote o.name)) then (o.name ∷ unreferenced remote p os) else unreferenced remote p os
