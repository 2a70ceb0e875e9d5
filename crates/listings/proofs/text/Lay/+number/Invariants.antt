use Rattle.listings.proofs.text.Lay.+number.Given as goal

abbrev pub decreases-number : goal.decreases-number
decreases-number l = l.x
