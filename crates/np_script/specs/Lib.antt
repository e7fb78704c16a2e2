pub mod Reading
pub mod Laws
pub mod Parsing
pub use Rattle.np_script_grammar.specs.Grammar
pub use Rattle.np_script_grammar.specs.Refusals
pub use Rattle.np_script_line_laws.specs.Limits
