-- Rows of a whole program, and programs that raise modules, computed.
mod Few
mod Rows
mod Examples
mod RaisedExamples
