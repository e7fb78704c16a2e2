pub mod Counts
pub mod Keys
pub use Rattle.np_script_grammar.specs.Scripts
pub use Rattle.np_script_grammar.specs.Order
