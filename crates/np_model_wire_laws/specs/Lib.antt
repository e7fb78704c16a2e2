pub mod Prefix
pub mod PluginPrefix
pub use Rattle.np_model.specs.Alone
pub use Rattle.np_model.specs.HostRun
pub use Rattle.np_model.specs.PluginRun
