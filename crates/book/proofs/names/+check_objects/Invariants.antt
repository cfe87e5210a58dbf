use Rattle.book.proofs.names.+check_objects.Given as goal

abbrev pub decreases-check_objects : goal.decreases-check_objects
decreases-check_objects l = l.room
