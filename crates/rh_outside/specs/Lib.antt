pub mod Counts
pub mod States
pub mod Sinks
pub mod Shelves
pub mod FileMap
pub mod FileBlocks
pub mod MemoryStores
pub mod MemoryOutputs
