pub mod Command
pub mod FileCommand
pub mod Programs
pub mod Answer
pub mod Promise
pub mod Excuses
pub mod CallSteps
pub mod FaultFreeCalls
