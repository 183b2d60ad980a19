-- The table of forms and what a statement says; then the lines of a text: blocks, limits, reasons, the whole text; then what the code keeps, and printing.
pub mod Forms
pub mod FormRows
pub mod Statements
pub mod ValueColumns
pub mod Blocks
pub mod Limits
pub mod LineReasons
pub mod Program
pub mod LineReadings
pub mod ReaderStates
pub mod Printing
