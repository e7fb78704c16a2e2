pub mod Building
pub mod Laws
pub use Rattle.np_script_grammar.specs.Takes
pub use Rattle.np_script_actions.specs.Actions
pub use Rattle.np_script_actions.specs.Commands
pub use Rattle.np_script_grammar.specs.Scripts
pub use Rattle.np_script_grammar.specs.Order
