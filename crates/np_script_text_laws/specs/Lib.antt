pub mod Laws
pub use Rattle.np_script_grammar.specs.Grammar
pub use Rattle.np_script_grammar.specs.Refusals
