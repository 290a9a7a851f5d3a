mod DoneLemmas
mod StatusLemmas
mod PrintingLemmas
