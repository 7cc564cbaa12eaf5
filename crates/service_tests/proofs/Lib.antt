mod PairsLookedThrough
mod Replicas
mod Working
