mod Exact
mod Out
mod Shared
