-- `half_year::square_rule::is_half_year` meets its contract: the goals that the check leaves. Assumes nothing.
use Rattle.half_year.proofs.Parts.{above_one, high_fits, high_product_fits, high_too_large, high_too_small, low_fits, low_product_fits, low_too_large, step_fits, step_decides}
use Rattle.half_year.proofs.square_rule.is_half_year.Goals as goal

pub returns-then-high_product-gt-LIMIT_HIGH : goal.returns-then-high_product-gt-LIMIT_HIGH
returns-then-high_product-gt-LIMIT_HIGH c = search high_too_large

pub returns-then-left_high-ge-PART_SQUARED : goal.returns-then-left_high-ge-PART_SQUARED
returns-then-left_high-ge-PART_SQUARED c = search high_too_small

pub returns-then-low_product-left : goal.returns-then-low_product-left
returns-then-low_product-left c = search low_too_large

pub returns : goal.returns
returns c = search step_decides
