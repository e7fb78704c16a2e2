-- What a session of a plug-in comes to.
use Rattle.std.proofs.Common.{ℕ, ◌<◌, ◌^◌, List, ◌++◌, Option, subst, inl, inr}
use Rattle.np_model.specs.declared.script.Plugin.{Plugin}
use Rattle.np_model.specs.Journal.{end_line, refused_line}
use Rattle.np_model.specs.PluginPlan.{PluginControl}
use Rattle.np_model.specs.Alone.{plugin_role}
use Rattle.np_ports.specs.Peer.{Known}
use Rattle.np_endpoint.specs.End.{EndState}
use Rattle.np_end_stops.specs.declared.ending.Ending.{Ending}
use Rattle.np_end_stops.specs.declared.ending.Ending.TheVariants.{Done, Unsent, Ended, Failed, Refused}
use Rattle.np_end_stops.specs.Causes.{Adds, AddsPart}
use Rattle.np_end_lines.specs.Endings.{ending_line}
use Rattle.np_exchange.specs.Live.{AtEnding}
use Rattle.np_exchange.specs.Closing.{Closed, ClosedPart}
use Rattle.np_exchange.proofs.EndRests.{waits-at, ends-at, total-is, all-taken}
use Rattle.np_exchange.proofs.PrintOrder.{ending-prints}
use Rattle.np_exchange.proofs.Sessions.{printed-is, sent-part, refusal-is, completes, first-begins, more-begins}
use Rattle.np_plug.specs.Outcomes.{OutcomeOf}

outcome : (plugin : Plugin) (old now : Known) (first sink : List ℕ) (e : EndState Plugin PluginControl) (ending : Ending) → AtEnding plugin_role plugin old first now sink e ending → OutcomeOf plugin ending old first now (sink ++ ending_line ending)
outcome plugin old now first sink e Done a = completes plugin_role plugin old now first sink e a
outcome plugin old now first sink e Unsent a =
    let l = a.live in
    record {
      got = l.got;
      sent = l.taken;
      side = l.stands.side;
      exchanged = l.exchanged;
      rests = inr (ends-at plugin_role plugin l.got l.sent l.printed e a.ends l.stands);
      sent_part = sent-part plugin_role plugin old now first sink e l;
      printed = printed-is plugin_role plugin old now first sink (end_line 6) e l a.quiet;
    }
outcome plugin old now first sink e Ended a =
    let l = a.live in
    let size = total-is plugin_role plugin l.got l.sent l.printed e a.ends.2 l.stands in
    record {
      got = l.got;
      sent = l.taken;
      side = l.stands.side;
      exchanged = l.exchanged;
      waits = waits-at plugin_role plugin l.got l.sent l.printed e a.ends.2 l.stands;
      below_limit = subst (λ (n : ℕ). n < 2 ^ 40) size a.ends.3;
      sent_is = all-taken plugin_role plugin l.got l.sent l.printed l.taken e a.ends.0 a.ends.1 l.stands;
      printed = printed-is plugin_role plugin old now first sink (end_line 5) e l a.quiet;
    }
outcome plugin old now first sink e Failed a =
    let l = a.live in
    record {
      got = l.got;
      sent = l.taken;
      side = l.stands.side;
      exchanged = l.exchanged;
      rests = inl (waits-at plugin_role plugin l.got l.sent l.printed e a.ends l.stands);
      sent_part = sent-part plugin_role plugin old now first sink e l;
      printed = printed-is plugin_role plugin old now first sink (end_line 6) e l a.quiet;
    }
outcome plugin old now first sink e (Refused r) a =
    let l = a.live in
    record {
      got = l.got;
      sent = l.taken;
      side = l.stands.side;
      refusal = r;
      exchanged = l.exchanged;
      refuses = refusal-is plugin_role plugin old now first sink e r a;
      sent_part = sent-part plugin_role plugin old now first sink e l;
      printed = printed-is plugin_role plugin old now first sink (refused_line r) e l a.quiet;
    }

-- ---- the end line

pub closed : (taken0 taken1 : Option (List ℕ)) (e : EndState Plugin PluginControl) (ending : Ending) → Adds taken0 taken1 (ending_line ending) → Closed plugin_role OutcomeOf taken0 taken1 e ending
closed taken0 taken1 e ending adds plugin old now first sink o a = (sink ++ ending_line ending, adds sink o, outcome plugin old now first sink e ending a)

-- a part of it was printed
pub closed-part : (taken0 taken1 : Option (List ℕ)) (e : EndState Plugin PluginControl) (ending : Ending) → AddsPart taken0 taken1 (ending_line ending) → ClosedPart plugin_role OutcomeOf taken0 taken1 e ending
closed-part taken0 taken1 e ending adds plugin old now first sink o a =
    let p = adds sink o in (
      sink ++ p.0,
      p.3,
      ending-prints plugin_role plugin old now first sink p.0 e ending a,
      record {
        whole = sink ++ ending_line ending;
        reached = outcome plugin old now first sink e ending a;
        part = more-begins sink (ending_line ending) p.0 p.1 p.2;
        unfinished = p.4;
        first_stays = first-begins first a.live.printed sink p.0 a.live.sink_is;
      },
    )
