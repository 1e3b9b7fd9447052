-- What is proved of pieces that are handed on. The laws of rooms are those of crates/lines.
mod HandedLaws
