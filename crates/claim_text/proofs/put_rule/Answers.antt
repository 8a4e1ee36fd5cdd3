use Rattle.text.specs.Spelt.{spelt_from, spelt}
use Rattle.claim_text.specs.Text.{rule_text}
use Rattle.claim_text.proofs.put_rule.Goals as goal

pub returns-in-First : goal.returns-in-First
unfolding rule_text spelt spelt_from
returns-in-First c = rw c.in-First.is c.put_bytes.ensures

pub returns-in-Table : goal.returns-in-Table
unfolding rule_text spelt spelt_from
returns-in-Table c = rw c.in-Table.is c.put_bytes-in-Table.ensures

pub returns-in-Long : goal.returns-in-Long
unfolding rule_text spelt spelt_from
returns-in-Long c = rw c.in-Long.is c.put_bytes-in-Long.ensures

pub returns-in-Refused : goal.returns-in-Refused
unfolding rule_text spelt spelt_from
returns-in-Refused c = rw c.in-Refused.is c.put_bytes-in-Refused.ensures

pub returns-in-Book : goal.returns-in-Book
unfolding rule_text spelt spelt_from
returns-in-Book c = rw c.in-Book.is c.put_bytes-in-Book.ensures

pub returns-in-Time : goal.returns-in-Time
unfolding rule_text spelt spelt_from
returns-in-Time c = rw c.in-Time.is c.put_bytes-in-Time.ensures
