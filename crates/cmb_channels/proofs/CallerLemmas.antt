-- What crates above may cite of the lemmas of this one.
pub use Rattle.cmb_channels.proofs.Places.{IsUpdated, get_of_update, get_update_other, get_update_same, length-sent, length-taken, length-update, map-update, sent-append, sent-none, sent_at, taken_at, taken_elsewhere, update-set, view_at, view_of_update_other, view_of_update_same}
