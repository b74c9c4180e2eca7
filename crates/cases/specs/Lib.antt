pub mod Case
pub mod BlanksTable
pub mod LoggerTable
pub mod RawTable
pub mod Table
