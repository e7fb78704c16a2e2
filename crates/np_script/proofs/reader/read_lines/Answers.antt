use Rattle.std.proofs.Common.{ℕ, List, ◌+◌, refl, sym, subst}
use Rattle.np_script_grammar.specs.declared.refusal.ScriptKind.{ScriptKind}
use Rattle.np_script_grammar.specs.Words.{lines_of}
use Rattle.np_script_grammar.specs.Order.{Standing}
use Rattle.np_script_builder.specs.declared.state.Building.{Building}
use Rattle.np_script_grammar.specs.Refusals.{IsRefusedLine}
use Rattle.np_script.proofs.WholeTexts.{Builds, can-build, line-read, line-refused, line-took, refusal}
use Rattle.np_script.proofs.reader.read_lines.Goals as goal

pub read_line-requires : goal.read_line-requires
read_line-requires c =
    let so = c.loop-left.invariant in
    record { builds = can-build c.lines_in_order_are_built.ensures.law c.built_goes_on.ensures.law c.args.side so.text c.loop-left.reader.order c.loop-left.reader.builder so.read }

pub returns-in-Err-Refused : goal.returns-in-Err-Refused
returns-in-Err-Refused c =
    let laws : Builds = record { in_order = c.lines_in_order_are_built.ensures.law; pages = c.built_pages.ensures.law; plugins = c.built_plugins.ensures.law } in
    let line : List ℕ = c.first_line.result.0.now in
    let order : Standing = c.loop-left.reader.order in
    let building : Building = c.loop-left.reader.builder in
    let refuses = refusal c.args.side order c.read_line.new.order building c.read_line.new.builder line c.in-Err-Refused.field-0 c.in-Err-Refused.kind c.in-Err-Refused.field-0-is c.in-Err-Refused.ensures.line in
    let refused = line-refused laws c.texts_can_be_completed.ensures.law c.refused_lines_end.ensures.law c.args.side c.args.bytes.now c.loop-left.left.now line c.first_line.result.1.now order building c.loop-left.reader.lines
    (c.loop-left.reader.lines + 1) c.in-Err-Refused.kind c.loop-left.invariant c.first_line.ensures.lines refl refuses in
    record { all = subst (λ (k : ScriptKind). IsRefusedLine c.args.side (lines_of c.args.bytes.now) (record { line = c.loop-left.reader.lines + 1; kind = k })) (sym c.in-Err-Refused.kind-is) refused }

pub loop-left-preserved : goal.loop-left-preserved
loop-left-preserved c =
    line-read c.args.side c.args.bytes.now c.loop-left.left.now c.first_line.result.0.now c.first_line.result.1.now c.loop-left.reader.order c.read_line.new.order c.loop-left.reader.builder c.read_line.new.builder
    c.loop-left.reader.lines (c.loop-left.reader.lines + 1) tt c.loop-left.invariant c.first_line.ensures.lines c.first_line.ensures.shorter refl c.in-Ok.ensures.line

pub returns-in-Err-NoMemory : goal.returns-in-Err-NoMemory
returns-in-Err-NoMemory c =
    record {
      all = line-took c.args.side c.args.bytes.now c.loop-left.left.now c.first_line.result.0.now c.first_line.result.1.now c.loop-left.reader.order c.read_line.new.order c.loop-left.reader.builder c.read_line.new.builder
          c.loop-left.reader.lines c.in-Err-NoMemory.field-0 c.in-Err-NoMemory.field-0-is c.loop-left.invariant c.first_line.ensures.lines c.in-Err-NoMemory.ensures.line;
    }
