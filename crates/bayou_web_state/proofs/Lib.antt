mod Chained
mod Texts
