-- How the numbers of names are kept: steps of the code, of which no public clause speaks.
pub mod Numbers
