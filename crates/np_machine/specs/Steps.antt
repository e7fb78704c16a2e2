-- What each step of a side does. A step speaks of places, makes no reference out of nothing, and changes nothing where it doesn't fit. (This project's own.)
use Rattle.std.specs.Prelude.{ℕ, ◌+◌, ◌-◌, List, [], ◌∷◌, ◌++◌, take, drop, Bool, false, if◌then◌else◌, Option, Some, None}
use Rattle.np_values.specs.declared.name.Name.{Name}
use Rattle.np_values.specs.declared.value.Value.{Value}
use Rattle.np_values.specs.declared.value.Value.TheVariants as values
use Rattle.np_life.specs.declared.phase.Phase.TheVariants.{Live}
use Rattle.np_journal.specs.declared.line.Line.TheVariants.{Created}
use Rattle.np_machine.specs.declared.frame.Entry.{Entry}
use Rattle.np_machine.specs.declared.frame.Frame.{Frame}
use Rattle.np_machine.specs.declared.frame.Progress.{Progress}
use Rattle.np_machine.specs.declared.step.Step.{Step}
use Rattle.np_machine.specs.declared.step.Step.TheVariants.{Copy, Constant, Put, Remove, Drop, DropEach, MoveAfter, Create, Enter, Leave, Advance, SetFlag, NoteException, Await, Resume, HandOver, Deliver, Sweep, Deallocate, Begin, MarkDestroying, TearDown, File, Print}
use Rattle.np_machine.specs.References.{name_of}
use Rattle.np_machine.specs.Values.{voids, next_value, moved_after}
use Rattle.np_machine.specs.Instances.{serial_in, with_serial, is_begun, destroy_in}
use Rattle.np_machine.specs.Objects.{property_at, without_property, properties_of, with_properties, with_object}
use Rattle.np_machine.specs.Frames.{with_progress}
use Rattle.np_machine.specs.Side.{SideState}
use Rattle.np_machine.specs.Places.{read, put_next}
use Rattle.np_machine.specs.Dropping.{drop_next}
use Rattle.np_machine.specs.Deallocation.{serve_queue, drop_each, unreferenced}
use Rattle.np_machine.specs.Messages.{hand_over, deliver_next}
use Rattle.np_machine.specs.Teardown.{tear_down}

-- the value comes in flight, where it is no object
abbrev pub add_constant : {C : Type 0} → Value → Option Name → SideState C → SideState C
add_constant v None p = record p { in_flight = v ∷ p.in_flight }
add_constant v (Some y) p = p

-- An object of this name and class is made, without properties, and a reference to it comes in flight. (npruntime.h, NPN_CreateObject.)
abbrev pub create_object : {C : Type 0} → Name → ℕ → SideState C → SideState C
create_object y class p =
    record p {
      instances = with_serial y.instance y.serial p.instances;
      objects = with_object (record { name = y; class = class; properties = [] }) p.objects;
      in_flight = values.Object y ∷ p.in_flight;
      journal = p.journal ++ Created y ∷ [];
    }

-- A frame is pushed: its first registers are the next so many values in flight, the others Void, and its object is the value after them.
abbrev pub enter_body : {C : Type 0} → ℕ → Entry → SideState C → SideState C
enter_body n entry p =
    record p {
      frames = record {
        instance = entry.instance;
        depth = entry.depth;
        caller = entry.caller;
        body = entry.body;
        this = next_value (drop n p.in_flight);
        registers = take n p.in_flight ++ voids (16 - n);
        progress = record { flag = false; exception = None; done = 0; awaits = None };
      } ∷ p.frames;
      in_flight = drop 1 (drop n p.in_flight);
    }

-- the newest frame is popped: its registers and then its object come in flight, after so many values
abbrev pub leave_body : {C : Type 0} → ℕ → List Frame → SideState C → SideState C
leave_body n [] p = p
leave_body n (a ∷ rest) p = record p { frames = rest; in_flight = take n p.in_flight ++ (a.registers ++ (a.this ∷ drop n p.in_flight)) }

-- the newest frame's progress is changed
abbrev pub change_progress : {C : Type 0} → (Progress → Progress) → SideState C → SideState C
change_progress change p = record p { frames = with_progress change p.frames }

-- What each step does, where `remote` says of each own object whether it is remotely referenced.
abbrev pub run_step : {C : Type 0} → (Name → Bool) → Step → SideState C → SideState C
run_step remote (Copy place) p = record p { in_flight = read place p ∷ p.in_flight }
run_step remote (Constant v) p = add_constant v (name_of v) p
run_step remote (Put place) p = put_next place p.in_flight p
run_step remote (Remove y key) p =
    record p { objects = with_properties y (without_property key (properties_of y p.objects)) p.objects; in_flight = property_at key (properties_of y p.objects) ∷ p.in_flight }
run_step remote Drop p = drop_next remote p.in_flight p
run_step remote (DropEach n) p = drop_each n remote p
run_step remote (MoveAfter n) p = record p { in_flight = moved_after n p.in_flight }
run_step remote (Create n class) p = if is_begun n p.instances then create_object (record { side = p.side; instance = n; serial = serial_in n p.instances + 1 }) class p else p
run_step remote (Enter n entry) p = enter_body n entry p
run_step remote (Leave n) p = leave_body n p.frames p
run_step remote (Advance n) p = change_progress (λ s. record s { done = s.done + n }) p
run_step remote (SetFlag b) p = change_progress (λ s. record s { flag = b }) p
run_step remote (NoteException text) p = change_progress (λ s. record s { exception = Some text }) p
run_step remote (Await how) p = change_progress (λ s. record s { awaits = Some how }) p
run_step remote Resume p = change_progress (λ s. record s { awaits = None }) p
run_step remote HandOver p = hand_over p.in_flight p
run_step remote Deliver p = deliver_next p.undelivered p
run_step remote Sweep p = record p { dealloc_queue = p.dealloc_queue ++ unreferenced remote p p.objects }
run_step remote Deallocate p = serve_queue remote p
run_step remote (Begin n) p = record p { instances = p.instances ++ record { number = n; phase = Live; serial = 0; slots = voids 9 } ∷ [] }
run_step remote (MarkDestroying n) p = record p { instances = destroy_in n p.instances }
run_step remote (TearDown n) p = if is_begun n p.instances then tear_down n p else p
run_step remote (File file) p = record p { files = p.files ++ file ∷ [] }
run_step remote (Print line) p = record p { journal = p.journal ++ line ∷ [] }

-- One step after another. Which own objects are remotely referenced is asked anew before each.
abbrev pub run_steps : {C : Type 0} → (SideState C → Name → Bool) → List Step → SideState C → SideState C
run_steps remote [] p = p
run_steps remote (step ∷ steps) p = run_steps remote steps (run_step (remote p) step p)
