use Rattle.std.proofs.Common.{inl}
use Rattle.np_host.specs.Words.{texts}
use Rattle.np_host.proofs.Follows.{follows-done, follows-lost, follows-broken, follows-refused}
use Rattle.np_host.proofs.FollowsCuts.{follows-cut}
use Rattle.np_host.proofs.UnrefusedRuns.{words-unrefused}
use Rattle.np_host.proofs.ShowCuts.{never-ran, eight-is-no-run, ten-is-no-run}
use Rattle.np_host.proofs.host.host_main.Goals as goal

pub returns-in-Ok-clause-listed : goal.returns-in-Ok-clause-listed
returns-in-Ok-clause-listed g c = inl c.in-Ok.ensures.listed

pub returns-in-Ok-clause-follows_done : goal.returns-in-Ok-clause-follows_done
returns-in-Ok-clause-follows_done g c = λ is. follows-done c.served_pages_are_well_formed.ensures.law c.waits_law.ensures.law c.ends_law.ensures.law (texts c.args.words.now) (g.F.Files.contents c.args.files.now) (g.P.Peer.known c.args.peer.now) (g.P.Peer.known c.serve.new.peer) (g.O.Sink.taken c.args.out.now) (g.O.Sink.taken c.serve.new.out) c.in-Ok.status is c.in-Ok.ensures.runs

pub returns-in-Ok-clause-follows_lost : goal.returns-in-Ok-clause-follows_lost
returns-in-Ok-clause-follows_lost g c = λ is. follows-lost c.served_pages_are_well_formed.ensures.law c.waits_law.ensures.law (texts c.args.words.now) (g.F.Files.contents c.args.files.now) (g.P.Peer.known c.args.peer.now) (g.P.Peer.known c.serve.new.peer) (g.O.Sink.taken c.args.out.now) (g.O.Sink.taken c.serve.new.out) c.in-Ok.status is c.in-Ok.ensures.runs

pub returns-in-Ok-clause-follows_broken : goal.returns-in-Ok-clause-follows_broken
returns-in-Ok-clause-follows_broken g c = λ is. follows-broken c.served_pages_are_well_formed.ensures.law c.waits_law.ensures.law c.ends_law.ensures.law (texts c.args.words.now) (g.F.Files.contents c.args.files.now) (g.P.Peer.known c.args.peer.now) (g.P.Peer.known c.serve.new.peer) (g.O.Sink.taken c.args.out.now) (g.O.Sink.taken c.serve.new.out) c.in-Ok.status is c.in-Ok.ensures.runs

pub returns-in-Ok-clause-never_refused : goal.returns-in-Ok-clause-never_refused
returns-in-Ok-clause-never_refused g c = λ is. follows-refused c.served_pages_are_well_formed.ensures.law c.never_refuses_law.ensures.law c.few_bytes_law.ensures.law (texts c.args.words.now) (g.F.Files.contents c.args.files.now) (g.P.Peer.known c.args.peer.now) (g.P.Peer.known c.serve.new.peer) (g.O.Sink.taken c.args.out.now) (g.O.Sink.taken c.serve.new.out) c.in-Ok.status is c.in-Ok.ensures.runs

pub returns-in-Ok-clause-unrefused : goal.returns-in-Ok-clause-unrefused
returns-in-Ok-clause-unrefused g c = λ is. words-unrefused c.rests_unrefused_law.ensures.page (texts c.args.words.now) (g.F.Files.contents c.args.files.now) (g.P.Peer.known c.args.peer.now) (g.P.Peer.known c.serve.new.peer) (g.O.Sink.taken c.args.out.now) (g.O.Sink.taken c.serve.new.out) c.in-Ok.status is c.in-Ok.ensures.runs

pub returns-in-Err-OutputFailed-clause-follows_cut : goal.returns-in-Err-OutputFailed-clause-follows_cut
returns-in-Err-OutputFailed-clause-follows_cut g c = λ _. follows-cut (record { formed = c.served_pages_are_well_formed.ensures.law; waits = c.waits_law.ensures.law; ends = c.ends_law.ensures.law; begins = c.begins_law.ensures.law; rests = c.comes_to_rest_law.ensures.law; never = c.never_refuses_law.ensures.law; few = c.few_bytes_law.ensures.law }) _ _ (texts c.args.words.now) _ _ (g.F.Files.contents c.args.files.now) (g.P.Peer.known c.args.peer.now) (g.P.Peer.known c.serve.new.peer) (g.O.Sink.taken c.args.out.now) (g.O.Sink.taken c.serve.new.out) c.in-Err-OutputFailed.ensures.cut

pub returns-in-Err-NoMemory-clause-follows_cut : goal.returns-in-Err-NoMemory-clause-follows_cut
returns-in-Err-NoMemory-clause-follows_cut g c = λ _. follows-cut (record { formed = c.served_pages_are_well_formed.ensures.law; waits = c.waits_law.ensures.law; ends = c.ends_law.ensures.law; begins = c.begins_law.ensures.law; rests = c.comes_to_rest_law.ensures.law; never = c.never_refuses_law.ensures.law; few = c.few_bytes_law.ensures.law }) _ _ (texts c.args.words.now) _ _ (g.F.Files.contents c.args.files.now) (g.P.Peer.known c.args.peer.now) (g.P.Peer.known c.serve.new.peer) (g.O.Sink.taken c.args.out.now) (g.O.Sink.taken c.serve.new.out) c.in-Err-NoMemory.ensures.cut

pub returns-in-Err-OutputFailed-clause-runs : goal.returns-in-Err-OutputFailed-clause-runs
returns-in-Err-OutputFailed-clause-runs g c = never-ran (texts c.args.words.now) (g.F.Files.contents c.args.files.now) (g.P.Peer.known c.args.peer.now) (g.P.Peer.known c.serve.new.peer) (g.O.Sink.taken c.args.out.now) (g.O.Sink.taken c.serve.new.out) 10 ten-is-no-run

pub returns-in-Err-NoMemory-clause-runs : goal.returns-in-Err-NoMemory-clause-runs
returns-in-Err-NoMemory-clause-runs g c = never-ran (texts c.args.words.now) (g.F.Files.contents c.args.files.now) (g.P.Peer.known c.args.peer.now) (g.P.Peer.known c.serve.new.peer) (g.O.Sink.taken c.args.out.now) (g.O.Sink.taken c.serve.new.out) 8 eight-is-no-run
