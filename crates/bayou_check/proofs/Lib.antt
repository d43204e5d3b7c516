mod TakenAs
