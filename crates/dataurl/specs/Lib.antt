-- The definitions that the contracts of the program use. Begin with Program, which says what the
-- whole program does. Command has the words of the commands, Output what each command writes for an
-- input, Runs what it does to a reader and a writer, and Status the exit statuses. Steps has the
-- definitions for private functions.
pub mod Command
pub mod Output
pub mod Program
pub mod Runs
pub mod Status
pub mod Steps
