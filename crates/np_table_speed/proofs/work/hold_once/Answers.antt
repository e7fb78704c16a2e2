use Rattle.std.proofs.Common.{◌<◌, slice_index_or, arith}
use Rattle.np_values.specs.declared.name.Side.TheVariants.{Page}
use Rattle.np_values.specs.declared.name.Name.{Name}
use Rattle.np_objects.specs.Objects.{holds_in}
use Rattle.np_table_speed.specs.Work.{IsIdle}
use Rattle.np_table_speed.proofs.Idle.{held, all-let-go}
use Rattle.np_table_speed.proofs.work.hold_once.Goals as goal

abbrev no_name : Name
no_name = record { side = Page; instance = 0; serial = 0 }

pub unhold-requires : goal.unhold-requires
unhold-requires c =
    let y : Name = slice_index_or c.args.names.now c.loop-name.name-index no_name in
    let idle : IsIdle y c.loop-name.store = c.loop-name.invariant c.loop-name.name-index no_name (omega arith) in
    record { held = held c.live_objects_are_kept.ensures.law c.same_names_are_equal.ensures.law c.loop-name.store c.hold.new.self y c.hold.ensures.value idle }

pub loop-name-preserved : goal.loop-name-preserved
loop-name-preserved c =
    let y : Name = slice_index_or c.args.names.now c.loop-name.name-index no_name in
    let idle : IsIdle y c.loop-name.store = c.loop-name.invariant c.loop-name.name-index no_name (omega arith) in
    let high : 0 < holds_in y c.hold.new.self = held c.live_objects_are_kept.ensures.law c.same_names_are_equal.ensures.law c.loop-name.store c.hold.new.self y c.hold.ensures.value idle in
    all-let-go c.live_objects_are_kept.ensures.law c.loop-name.store c.hold.new.self c.unhold.new.self y c.args.names.now c.hold.ensures.value c.unhold.ensures.value idle.live high c.loop-name.invariant
