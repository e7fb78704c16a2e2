use Rattle.np_ports.specs.Causes.{Rose}
use Rattle.np_show.specs.Show.{ShowCut}
use Rattle.np_show.proofs.FileReads.{on-stop}
use Rattle.np_show.proofs.Endings.{shows-all, shows-part, cut-late, cut-early}
use Rattle.np_show.proofs.listing.show.Goals as goal

pub returns-in_err-outcome-clause-cut : goal.returns-in_err-outcome-clause-cut
returns-in_err-outcome-clause-cut g c =
    let cut : ShowCut c.args.name.now (Rose (g.F.Files.faults c.args.files.now) (g.F.Files.faults c.show_messages.new.files)) (g.F.Files.contents c.args.files.now) (g.O.Sink.taken c.args.out.now) (g.O.Sink.taken c.show_messages.new.out) = λ f e.
    cut-early (f c.args.name.now) _ _ _ (c.in_err-outcome.ensures.front f e) in
    on-stop _ _ cut

pub returns-in_err-status-clause-cut : goal.returns-in_err-status-clause-cut
returns-in_err-status-clause-cut g c =
    let cut : ShowCut c.args.name.now (Rose (g.F.Files.faults c.args.files.now) (g.F.Files.faults c.show_messages.new.files)) (g.F.Files.contents c.args.files.now) (g.O.Sink.taken c.args.out.now) (g.O.Sink.taken c.finish_listing.new.out) = λ f e.
    cut-late (f c.args.name.now) _ _ _ _ c.in_ok-outcome.outcome (c.in_ok-outcome.ensures.comes f e) c.in_err-status.ensures.part c.in_ok-outcome.ensures.file in
    on-stop _ _ cut

pub returns-clause-shown : goal.returns-clause-shown
returns-clause-shown g c = λ not_4 f e. shows-all (f c.args.name.now) _ _ _ c.in_ok-outcome.outcome _ (c.in_ok-outcome.ensures.comes f e) c.in_ok-status.ensures.printed c.in_ok-status.ensures.status not_4

pub returns-clause-part : goal.returns-clause-part
returns-clause-part g c = λ four f e. shows-part (f c.args.name.now) _ _ _ c.in_ok-outcome.outcome _ (c.in_ok-outcome.ensures.comes f e) c.in_ok-status.ensures.printed c.in_ok-status.ensures.status four
