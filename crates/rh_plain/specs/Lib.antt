-- Values: the words of promises. Endings: how groups and scopes end. Drawing: the journal while it grows. Holding: the words that are not
-- freed. Listing: a node's lists. Runs: a node's result, and the state
-- between two nodes. Recording: a node that ended. Telling: what the report shows.
pub mod Values
pub mod Endings
pub mod Drawing
pub mod Holding
pub mod NodeLists
pub mod Listing
pub mod Runs
pub mod Recording
pub mod Telling
