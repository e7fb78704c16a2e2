use Rattle.std.proofs.Common.{rules, ◌≡◌, length}
use Rattle.np_show.proofs.MessageLines.{line-is}
use Rattle.np_message.specs.Encoding.{kind_of, depth_byte}
use Rattle.np_show.proofs.lines.push_line.Goals as goal

pub returns : goal.returns
returns c = record {
  ok =
      let kind : c.from.result ≡ kind_of c.args.message.now.body = search rules in
      let count : c.len.result ≡ length c.args.message.now.releases = search rules in
      let depth : c.from-2.result ≡ depth_byte c.args.message.now.depth = search rules in
      line-is c.args.out.now.items c.args.at _ _ _ c.args.size c.args.message.now _ _ _ _ _ _ c.in_ok-push_spaced.ensures.ok c.in_ok-push_spaced-2.ensures.ok c.in_ok-push_spaced-3.ensures.ok c.in_ok-push_spaced-4.ensures.ok
      c.in_ok-push_number.ensures.ok c.in_ok-push.ensures.items kind depth count c.requires.size;
}
