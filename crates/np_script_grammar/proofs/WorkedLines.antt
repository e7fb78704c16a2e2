-- Lines worked out by hand from the rules, against the definitions.
use Rattle.std.proofs.Common.{◌≡◌, pos, negsuc, [], ◌∷◌, true, false, refl}
use Rattle.std.specs.Prelude.{codes}
use Rattle.std.specs.Fmt.{digits}
use Rattle.np_values.specs.declared.value.Value.TheVariants.{Void, Int, Double, Text}
use Rattle.np_idents.specs.declared.key.IdKey.TheVariants as keys
use Rattle.np_script_grammar.specs.declared.action.Operand.TheVariants.{Reg, Const}
use Rattle.np_script_grammar.specs.declared.action.Action.TheVariants as actions
use Rattle.np_script_grammar.specs.declared.command.Command.TheVariants as commands
use Rattle.np_script_grammar.specs.Words.{words_of, is_skipped, lines_of}
use Rattle.np_script_grammar.specs.Fields.{value_word}
use Rattle.np_script_grammar.specs.Forms.{line_words, spaced}
use Rattle.np_script_grammar.specs.Rows.{action_line, command_line}

head : words_of (codes "  page 0   27 ") ≡ codes "page" ∷ codes "0" ∷ codes "27" ∷ []
head = refl

quoted_space : words_of (codes "create \"a b\" full") ≡ codes "create" ∷ codes "\"a b\"" ∷ codes "full" ∷ []
quoted_space = refl

quoted_quote : words_of (codes "throw \"a \\\" b\"  ") ≡ codes "throw" ∷ codes "\"a \\\" b\"" ∷ []
quoted_quote = refl

comment : is_skipped (words_of (codes "  # c")) ≡ true
comment = refl

blank : is_skipped (words_of (codes "   ")) ≡ true
blank = refl

kept : is_skipped (words_of (codes "do # c")) ≡ false
kept = refl

two_lines : lines_of (codes "do\n\nturn") ≡ codes "do" ∷ [] ∷ codes "turn" ∷ []
two_lines = refl

last_newline : lines_of (codes "do\n") ≡ codes "do" ∷ []
last_newline = refl

int_word : value_word (Int (negsuc 2147483647)) ≡ codes "-2147483648"
unfolding digits
int_word = refl

double_word : value_word (Double (127 ∷ 248 ∷ 0 ∷ 0 ∷ 0 ∷ 0 ∷ 0 ∷ 1 ∷ [])) ≡ codes "d:7ff8000000000001"
double_word = refl

escapes : value_word (Text (34 ∷ 92 ∷ 0 ∷ 31 ∷ 127 ∷ 97 ∷ [])) ≡ codes "\"\\\"\\\\\\x00\\x1f\\x7fa\""
escapes = refl

invoke : spaced (line_words (action_line (actions.Invoke 1 (Reg 0) (keys.Str (codes "add")) (Const (Int (pos 2)) ∷ Const Void ∷ [])))) ≡ codes "invoke $1 $0 \"add\" 2 void"
unfolding digits
invoke = refl

ranges : spaced (line_words (action_line (actions.RequestRead 1 (Reg 0) (record { offset = negsuc 4; length = 10 } ∷ [])))) ≡ codes "reqread $1 $0 -5 10"
unfolding digits
ranges = refl

create : spaced (line_words (command_line (commands.Create (codes "t/x") 1 (codes "n" ∷ codes "v" ∷ [])))) ≡ codes "create \"t/x\" embed \"n\" \"v\""
create = refl

put_number : spaced (line_words (command_line (commands.Put (Reg 0) (keys.Int (pos 12)) (Const (Int (pos 2)))))) ≡ codes "put $0 12 2"
unfolding digits
put_number = refl
