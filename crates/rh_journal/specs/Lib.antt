-- Events: whose they are. Own: the events of a node and of the report. OneThread: the journal of one thread. Tells, Told: what an outcome
-- tells of a run. References: when a promise has some. ShownWords: lists of shown words.
pub mod Events
pub mod Own
pub mod OneThread
pub mod Tells
pub mod Told
pub mod References
pub mod ShownWords
