pub mod InOrder
pub mod SheetOrNone
pub mod RuleExample
