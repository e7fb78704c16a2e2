pub mod KnownNames
pub mod DirectRuns
pub mod Deliveries
pub mod PluginDeliveries
pub mod PageDeferrals
pub mod WorkedRows
pub mod BudgetRows
