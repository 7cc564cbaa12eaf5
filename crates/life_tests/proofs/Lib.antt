mod ClientsBack
mod NewCallers
