use Rattle.std.proofs.Common.{length, ap, arith}
use Rattle.np_host_end.proofs.CommandsLeft.{next_create}
use Rattle.np_host_end.proofs.host_core.Core.command.Goals as goal

pub overflow_cast-instance : goal.overflow_cast-instance
overflow_cast-instance c =
    let n = next_create (length c.args.self.now.phases.items) c.args.self.now.next _ c.args.self.now.page.commands _ _ _ c.as_slice.ensures.same c.requires.more c.index-as_slice-self.is c.in-Create.is c.args.self.now.fits in
    omega arith

pub push_call-requires-in-Compatible-peer : goal.push_call-requires-in-Compatible-peer
push_call-requires-in-Compatible-peer c =
    let n = next_create (length c.args.self.now.phases.items) c.args.self.now.next _ c.args.self.now.page.commands _ _ _ c.as_slice.ensures.same c.requires.more c.index-as_slice-self.is c.in-Create.is c.args.self.now.fits in
    record {
      kept = (omega arith, omega arith, omega arith, (0, omega arith, ap length c.new.ensures.value));
    }
