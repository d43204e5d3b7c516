mod Database
mod Holding
mod Made
mod Outcomes
mod Pages
mod Said
