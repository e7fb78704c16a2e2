pub mod Laws
pub mod Limits
pub use Rattle.np_script_grammar.specs.Scripts
pub use Rattle.np_script_grammar.specs.Order
pub use Rattle.np_script_grammar.specs.Grammar
