use Rattle.std.proofs.Common.{◌≡◌, ◌∙◌, ap, sym, None, arith}
use Rattle.std.specs.Option.{option_copied_mut}
use Rattle.np_objects.specs.Fields.{field_at}
use Rattle.np_objects.proofs.FieldLists.{inserted}
use Rattle.np_objects.proofs.fields.Fields.set.Goals as goal

pub returns-clause-ok : goal.returns-clause-ok
returns-clause-ok c =
    let none : field_at c.args.key.now c.args.self.now ≡ None = ap (field_at c.args.key.now) (sym c.self.view_is) ∙ sym c.get_mut.ensures.value ∙ ap option_copied_mut c.in_default.is in
    let f = c.if-len-ge-MAX_FIELDS.false in
    let g = c.len.ensures.len in
    inserted c.get_mut.follows.lender-at-none c.self.inside.map c.args.self.now c.insert.new.self.entries c.args.key.now c.in_ok-try_copy.field-0 c.args.value c.get_mut.follows.holds-at-none c.self.view_is none (omega arith) c.in_ok-try_copy.ensures.value c.in_ok-insert.ensures.entries
