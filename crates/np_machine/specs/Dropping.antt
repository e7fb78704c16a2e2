-- What becomes of a reference that is dropped: a release of the other side's object, or the death of an own one. (npruntime.h, NPN_ReleaseObject; that a release waits for the next message is this project's own.)
use Rattle.std.specs.Prelude.{ℕ, zero, suc, ◌+◌, ◌-◌, List, [], ◌∷◌, ◌++◌, Bool, ◌&&◌, ◌==◌, not, if◌then◌else◌, Option, Some, None}
use Rattle.np_values.specs.declared.name.Name.{Name}
use Rattle.np_values.specs.declared.value.Value.{Value}
use Rattle.np_values.specs.Name.{is_same_side}
use Rattle.np_proxy_release.specs.declared.release.Release.{Release}
use Rattle.np_proxy_release.specs.Release.{is_released_before}
use Rattle.np_machine.specs.References.{name_of, released_count, carried_in, released_in}
use Rattle.np_machine.specs.Side.{SideState, local_count, is_dead}

-- how many references to x this side received
abbrev pub received_count : {C : Type 0} → Name → SideState C → ℕ
received_count x p = carried_in p.side x p.delivered

-- how many of them it gave back, or is to give back
abbrev pub returned_count : {C : Type 0} → Name → SideState C → ℕ
returned_count x p = released_in x p.sent + released_count x p.pending_releases

-- a further release: its references are added to those of the same name, or it is put at its place in the order of names
abbrev pub add_release : Release → List Release → List Release
add_release r [] = r ∷ []
add_release r (s ∷ rest) =
    if r.instance == s.instance && r.serial == s.serial then (record s { times = s.times + r.times } ∷ rest)
    else if is_released_before r s then (r ∷ (s ∷ rest))
    else (s ∷ add_release r rest)

-- A place stopped referring to an object of the other side. After the last one all references that were received and not given back yet are to be given back. A dead instance gives nothing back.
abbrev pub drop_remote : {C : Type 0} → Name → SideState C → SideState C
drop_remote y p =
    if is_dead p y.instance then p
    else if local_count y p == 0 then record p { pending_releases = add_release (record { instance = y.instance; serial = y.serial; times = received_count y p - returned_count y p }) p.pending_releases }
    else p

-- A place stopped referring to an object of this side. It is to be deallocated where no place here refers to it and it isn't remotely referenced. What is of a dead instance is in the queue already.
abbrev pub drop_local : {C : Type 0} → (Name → Bool) → Name → SideState C → SideState C
drop_local remote y p =
    if not (is_dead p y.instance) && (local_count y p == 0 && not (remote y)) then record p { dealloc_queue = p.dealloc_queue ++ y ∷ [] } else p

-- a place stopped referring to this object, if it did to any
abbrev pub drop_reference : {C : Type 0} → (Name → Bool) → Option Name → SideState C → SideState C
drop_reference remote None p = p
drop_reference remote (Some y) p = if is_same_side y.side p.side then drop_local remote y p else drop_remote y p

-- the next value in flight is dropped
abbrev pub drop_next : {C : Type 0} → (Name → Bool) → List Value → SideState C → SideState C
drop_next remote [] p = p
drop_next remote (v ∷ rest) p = drop_reference remote (name_of v) (record p { in_flight = rest })

-- so many values in flight are dropped, one after another
abbrev pub drop_many : {C : Type 0} → ℕ → (Name → Bool) → SideState C → SideState C
drop_many zero remote p = p
drop_many (suc n) remote p = drop_many n remote (drop_next remote p.in_flight p)
