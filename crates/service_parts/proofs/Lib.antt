mod AskedLemmas
mod HandedBack
mod KeptLemmas
mod OpenLemmas
