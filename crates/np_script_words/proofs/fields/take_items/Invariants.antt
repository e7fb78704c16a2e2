use Rattle.std.proofs.Common.{◌<◌, ◌≤◌, List, length, take}
use Rattle.np_script_grammar.specs.declared.line.Field.{Field}
use Rattle.np_script_grammar.specs.Words.{words_of}
use Rattle.np_script_words.specs.Lines.{BeginsWith, IsAfter}
use Rattle.np_script_words.proofs.fields.take_items.Given as goal

abbrev pub invariant-loop-item : goal.invariant-loop-item
invariant-loop-item l = record {
  read : List Field;
  begins : BeginsWith (take l.item-index l.items) (words_of l.line) read (words_of l.left);
  after : IsAfter l.fn.reading l.reading read;
  within : length l.left ≤ length l.line;
  shorter : 0 < l.item-index → length l.left < length l.line;
}
