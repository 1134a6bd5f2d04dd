use Rattle.std.proofs.Common.{◌≡◌, ◌<◌, ◌≤◌, ◌^◌, ◌-◌, true, length, take}
use Rattle.std.specs.List.{list_all}
use Rattle.text_base.specs.Numbers.{is_digit, value_of_digits}
use Rattle.text_base.proofs.numbers.split_by_bytes.Given as goal

abbrev pub invariant-loop-count : goal.invariant-loop-count
invariant-loop-count l = record {
  within : l.count ≤ length l.text;
  few : l.count ≤ 10;
  digits : list_all is_digit (take l.count l.text) ≡ true;
  value : l.value ≡ value_of_digits (take l.count l.text);
  small : l.value < 10 ^ l.count;
}

abbrev pub decreases-loop-count : goal.decreases-loop-count
decreases-loop-count l = length l.text - l.count
