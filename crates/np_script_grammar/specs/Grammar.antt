-- The grammar of page scripts and of plug-in scripts, and their canonical text. (This project's own.)
use Rattle.std.specs.Prelude.{◌≡◌, ℕ, ◌≤◌, List, [], ◌∷◌, ◌++◌, length, map, true, not}
use Rattle.std.specs.List.{list_all, filter, flat_map, AllByRecursion}
use Rattle.np_values.specs.declared.name.Side.{Side}
use Rattle.np_values.specs.declared.name.Side.TheVariants as sides
use Rattle.np_script_grammar.specs.declared.page.Page.{Page}
use Rattle.np_script_grammar.specs.declared.plugin.Plugin.{Plugin}
use Rattle.np_script_grammar.specs.Words.{lines_of, is_line, words_of, is_skipped}
use Rattle.np_script_grammar.specs.Forms.{Line, line_words, spaced}
use Rattle.np_script_grammar.specs.Scripts.{HasContent, IsPageOf, IsPluginOf, canonical_page_lines, canonical_plugin_lines}
use Rattle.np_script_grammar.specs.Order.{at_first, AreInOrder}

-- the words of the lines that count
abbrev pub counted_words : List (List ℕ) → List (List (List ℕ))
counted_words lines = filter (λ words. not (is_skipped words)) (map words_of lines)

-- the bytes of these lines are the lines of a script, one for one but for what is skipped, in an order that may be
pub record AreLinesOf (side : Side) (text : List (List ℕ)) (lines : List Line) : Type 0 where
  pub plain : list_all is_line text ≡ true
  pub say : counted_words text ≡ map line_words lines
  pub in_order : AreInOrder side at_first lines

-- the most bytes of a script
abbrev pub script_limit : ℕ
script_limit = 1048576

-- the bytes are a page script, and say this page
pub record IsPageScript (bytes : List ℕ) (page : Page) : Type 0 where
  pub size : length bytes ≤ script_limit
  pub lines : List Line
  pub are_lines : AreLinesOf sides.Page (lines_of bytes) lines
  pub says : IsPageOf lines page

-- the bytes are a plug-in script, and say this plug-in
pub record IsPluginScript (bytes : List ℕ) (plugin : Plugin) : Type 0 where
  pub size : length bytes ≤ script_limit
  pub lines : List Line
  pub are_lines : AreLinesOf sides.Plug (lines_of bytes) lines
  pub says : IsPluginOf lines plugin

-- ---- canonical text

-- each line ended by byte 10
abbrev pub text_of_lines : List Line → List ℕ
text_of_lines lines = flat_map (λ line. spaced (line_words line) ++ 10 ∷ []) lines

abbrev pub canonical_page : Page → List ℕ
canonical_page page = text_of_lines (canonical_page_lines page)

abbrev pub canonical_plugin : Plugin → List ℕ
canonical_plugin plugin = text_of_lines (canonical_plugin_lines plugin)

-- ---- scripts as values

-- The page is one that a script may say, whatever its size: its canonical lines may follow each other so, and its resources carry what their lines say.
pub record KeepsPageRules (page : Page) : Type 0 where
  pub in_order : AreInOrder sides.Page at_first (canonical_page_lines page)
  pub contents : AllByRecursion HasContent page.resources

-- The plug-in is one that a script may say, whatever its size.
pub record KeepsPluginRules (plugin : Plugin) : Type 0 where
  pub in_order : AreInOrder sides.Plug at_first (canonical_plugin_lines plugin)
