-- The laws by which a Number is used from above: nothing that uses them looks inside of one.

-- what is known without a calculation, and where paths join
pub use Rattle.number.proofs.Known.{exact_in, exact_only, loaded_in, joined_covers_left, joined_covers_right}
-- an operation on members gives a member, and on exact numbers the exact one; an offset that fits
pub use Rattle.number.proofs.Computing.{computed_form, computed_sound, computed_exact, computed_bits_within, computed_range_within, computed_best, fits_exactly, fits_not, fits_sound, fits_exact}
-- a way out of a comparison keeps all pairs that go it, and on exact numbers says which way is gone
pub use Rattle.number.proofs.Compare.{refined_sound, refined_narrower}
pub use Rattle.number.proofs.AgainstKnown.{refined_exact, refined_exact_excluded}
-- the same of a comparison of low halves
pub use Rattle.number.proofs.Halves.{refined32_sound, refined32_narrower, refined32_exact, refined32_exact_excluded}
-- of what is known better no less is known: an operation in which no range is empty, a join, a way out of a comparison at either width
pub use Rattle.number.proofs.ComputedInOrder.{computed_narrower, joined_in_order}
pub use Rattle.number.proofs.Known.{joined_form, joined_wider_left, joined_wider_right}
pub use Rattle.number.proofs.WaysInOrder.{refined_in_order}
pub use Rattle.number.proofs.Compare.{refined_form}
pub use Rattle.number.proofs.HalvesInOrder.{refined32_in_order, refined32_form}
-- and unless a result is empty no range is
pub use Rattle.number.proofs.Operable.{Operable, joined_operable, member_operable, none_empty_but_the_result, computed_operable, refined_operable, refined32_operable}
-- everything that is demanded
pub use Rattle.number.proofs.AllDemanded.{all_demanded}
