use mathlib.Core.Path.{◌≡◌}
use borrow.Author.Rules.{rules}
use lib.ListN.{length}
use Rattle.words.specs.Layout.{entry_words, set_entry}
use Rattle.words.proofs.put_entry.Goals as goal

pub returns : goal.returns
unfolding set_entry
returns c =
    let start = c.entry_offset in
    let long : length c.args.e ≡ entry_words = search rules in
    (rw (long, start.ensures) at c.put_run.ensures, long)
