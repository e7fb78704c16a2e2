pub mod Laws
pub use Rattle.np_message.specs.Encoding
pub use Rattle.np_message.specs.Rules
pub use Rattle.np_model.specs.Side
pub use Rattle.np_model.specs.Run
pub use Rattle.np_model.specs.PagePlan
pub use Rattle.np_model.specs.PluginPlan
